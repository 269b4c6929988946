pub mod StayLaws
