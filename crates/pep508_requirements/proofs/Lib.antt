mod ErrorLaws
mod EndLaws
mod ReadLaws
mod GivenLaws
mod UnnamedLaws
mod TextLaws
mod JsonLaws
