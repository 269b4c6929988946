pub mod SlotVisits
