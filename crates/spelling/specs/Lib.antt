pub mod Spacing
pub mod Grammar
pub mod Appearance
pub mod Spelling
pub mod StepGrammar
pub mod StepSpelling
