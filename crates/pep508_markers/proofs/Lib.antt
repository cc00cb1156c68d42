mod TreeLaws
mod OrderLaws
mod DoneLaws
mod SessionLaws
mod FaultLaws
mod JsonLaws
mod SetLaws
mod TextLaws
