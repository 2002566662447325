pub mod KindLaws
pub mod TableLaws
pub mod NameLaws
pub mod Numbers
