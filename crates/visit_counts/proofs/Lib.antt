pub mod SlotVisitLaws
