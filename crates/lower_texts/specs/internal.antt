pub mod FirstScopes
