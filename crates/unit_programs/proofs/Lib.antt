pub mod HalfLaws
pub mod AddLaws
pub mod SumLaws
pub mod LookLaws
pub mod WriteLaws
pub mod ZeroLaws
pub mod OneCellLaws
pub mod OrderLaws
