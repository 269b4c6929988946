pub mod SessionLaws
