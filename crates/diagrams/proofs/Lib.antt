pub mod ValueLaws
pub mod CanonLaws
pub mod AssignmentLaws
pub mod PathLaws
pub mod WitnessLaws
pub mod PartsLaws
pub mod KeyLaws
