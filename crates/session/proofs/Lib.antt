pub mod MapLaws
pub mod ReceiptLaws
pub mod RefusalLaws
