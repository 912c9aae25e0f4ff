pub mod ByteLaws
pub mod TextLaws
pub mod DecimalLaws
pub mod WriterLaws
