pub mod PickList
