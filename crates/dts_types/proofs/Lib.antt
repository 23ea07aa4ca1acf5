-- what is written of an expression
pub mod TypeLemmas
-- parts in turns
pub mod TurnLemmas
-- elements of arrays
pub mod ElementLemmas
-- arrays
pub mod ArrayLemmas
-- properties of objects
pub mod ObjectLemmas
-- parameters
pub mod ParamLemmas
-- functions
pub mod FunctionLemmas
-- `Object.freeze` twice
pub mod FrozenLemmas
