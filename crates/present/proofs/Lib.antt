pub mod PresentLaws
