-- Units, answers and their numbers
pub mod Units
pub mod Answers
-- Section 2: what comes in
pub mod Contents
pub mod Input
pub mod Lasts
-- Section 3: states and steps
pub mod Ordered
pub mod AnyTable
pub mod Filling
pub mod Table
pub mod Shape
pub mod Step
pub mod Fold
pub mod Run
pub mod Join
pub mod Graph
-- Request 12/13: how the cache is found
pub mod Starts
-- Request 10/13: the best case's table
pub mod Best
-- Section 4: questions put to a finished table
pub mod Counts
pub mod Questions
pub mod BestQuestions
-- Section 5: when the work says no
pub mod Refusals
-- Request 11/13: a pairing or none for each join
pub mod Entries
-- Request 9/13: curves in cycles
pub mod Longest
pub mod Cycles
-- Request 5/13: a quick yes or no
pub mod Within
