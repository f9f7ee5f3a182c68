pub mod PropertyEscapes
pub mod PropertyForms
pub mod PropertyFronts
