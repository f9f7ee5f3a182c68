pub mod OneProperty
pub mod PropertyFlags
pub mod PropertyFronts
pub mod PropertyRefusals
pub mod PropertyRuns
pub mod PropertyTables
pub mod PropertyTexts
pub mod PropertyWords
