pub mod ActLaws
pub mod CourseLaws
pub mod MomentLaws
pub mod PlaceLaws
pub mod ReportLaws
pub mod ReportTexts
pub mod SessionLaws
