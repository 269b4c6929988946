pub mod AnsweringLaws
pub mod BuiltInLaws
pub mod CallLaws
pub mod ConsultingLaws
pub mod DeskAnsweringLaws
pub mod DeskCallLaws
pub mod DeskOpeningLaws
pub mod DeskRoomLaws
pub mod OpeningLaws
pub mod RoomLaws
pub mod DroppedLineLaws
pub mod StartLaws
pub mod TextLaws
mod DeskValues
mod Values
