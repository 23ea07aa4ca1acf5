-- a place where both may stand what scripts alone and what modules alone have
pub mod Both
