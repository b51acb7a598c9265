pub mod Opening
pub mod Meaning
pub mod OneFault
pub mod OneEnd
pub mod OneReport
pub mod Between
pub mod Fed
pub mod Sealing
