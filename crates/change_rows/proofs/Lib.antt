-- laws of rows that are laid out word by word
pub mod RowLaws
-- laws of a new node's places and words
pub mod NodeLaws
-- laws of a row in which the words from one on have moved up
pub mod RoomLaws
-- laws of pairs by rising key
pub mod PairLaws
-- laws of what two nodes hold together, shared out
pub mod HalfLaws
