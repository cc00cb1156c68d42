mod CheckLaws
mod MetadataLaws
