pub mod J1
pub mod AttributeJob
pub mod FramedJob
