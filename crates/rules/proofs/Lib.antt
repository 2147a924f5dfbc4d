-- Units
pub mod Splitting
-- Lists
pub mod Lists
-- Contents
pub mod Bits
pub mod Contents
pub mod Lookup
pub mod Filling
pub mod Sets
-- Accepted inputs, and their nodes
pub mod Refusals
pub mod Nodes
-- Tables of any kind
pub mod Ordered
pub mod Listings
pub mod Pairings
pub mod AnyTable
-- Document 01's tables
pub mod Table
pub mod Step
pub mod Fold
pub mod Partners
pub mod Replacing
pub mod Thirds
pub mod Join
-- The tables of runs and graphs
pub mod Run
pub mod Graph
-- What is handed in for the joins
pub mod Entries
-- The first revision among them
pub mod Revisions
-- What is known before the first access
pub mod Starts
-- The rooms of a call
pub mod Rooms
-- The longest path
pub mod Longest
-- The questions
pub mod Counts
pub mod Questions
-- Curves in cycles
pub mod Cycles
-- Request 5/13: a quick yes or no
pub mod Within
-- The worked numbers of document 01
pub mod WorkedNumbers
-- The best case
pub mod Best
pub mod BestQuestions
pub mod BestNumbers
