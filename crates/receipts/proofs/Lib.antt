pub mod DeliverLaws
