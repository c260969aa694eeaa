pub mod ListsAndChoices
pub mod TwoLists
