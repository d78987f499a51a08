mod Procedures
mod FirstScopes
mod Lines
