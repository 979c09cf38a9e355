-- laws of the repair: one for each branch of the code, and that a refused opening stores nothing
pub mod RepairingLaws
