pub mod LineLaws
pub mod PutLaws
pub mod FanLaws
