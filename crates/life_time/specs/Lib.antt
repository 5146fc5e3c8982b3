pub mod DeadlineBody
pub mod DeadlineService
pub mod History
pub mod Timeout
