pub mod SheetLaws
pub mod PenLaws
