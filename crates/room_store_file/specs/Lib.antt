-- rows as bytes, the text of a room, and its digests
pub mod DigestTexts
-- what is added to a hash
pub mod RowHash
-- what the texts of SQL read
pub mod WholeTableTexts
-- the digest that changes lead to
pub mod DigestChanges
-- what is reported of a file
pub mod ExaminedFile
-- what a file holds that is opened
pub mod OpenedFile
-- why storage is reported for it
pub mod OpeningCauses
