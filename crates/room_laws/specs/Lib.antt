-- what happens in a run
pub mod Happens
-- what may give an order and end one, and whom it reaches
pub mod Orders
-- the most urgent is first in a queue
pub mod UrgentFirst
-- what a queue keeps until its cause ends
pub mod Exceptions
