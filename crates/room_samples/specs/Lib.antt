-- the rows of a sampled room, field by field
pub mod ExampleRows
-- what a sampled step says
pub mod SampledSteps
-- the plans that sampled rooms have
pub mod SampledRooms
