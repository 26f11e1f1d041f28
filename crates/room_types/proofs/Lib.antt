pub mod EachRow
pub mod KeyedLaws
pub mod Search
pub mod CrewLaws
-- callsigns and tokens are UTF-8
pub mod Letters
-- ranks stand in the order of their numbers
pub mod RankLaws
pub mod SentLaws
pub mod ShareLaws
pub mod SliceFacts
mod TextLaws
