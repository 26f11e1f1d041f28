-- what is served on some connections and then on others
pub mod ConnectionLaws
-- what the path of a target is
pub mod LogLemmas
-- starts, one after another
pub mod StartLaws
-- the life of a room's file
pub mod LifeLaws
-- the list that is kept on the connections of a start
pub mod HeardLists
-- and over starts
pub mod ListLaws
-- such a list, replayed
pub mod ReplayLaws
-- entries that are kept
pub mod KeeperLemmas
-- questions change nothing
pub mod ChangeLaws
-- what is printed as callers begin
pub mod CallerLemmas
-- lists that are opened
pub mod OpeningLemmas
