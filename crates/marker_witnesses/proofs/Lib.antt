mod ChoiceLaws
mod EdgeLaws
mod TextLaws
mod SideLaws
