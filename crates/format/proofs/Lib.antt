pub mod RowLaws
pub mod BytesLaws
pub mod KindLaws
pub mod FieldLaws
pub mod AccessLaws
pub mod SectionLaws
pub mod ExampleLaws
