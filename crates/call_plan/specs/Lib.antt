pub mod Rules
pub mod Pass
pub mod Plan
pub mod Plans
pub mod PlanFile
