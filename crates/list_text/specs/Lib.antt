-- THE TEXT THAT `list` PRINTS, byte by byte (document 01, "Dumps and the list program")
pub mod Text
