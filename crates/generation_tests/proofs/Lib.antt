mod BooleanForms
