pub mod SameHedge
pub mod HedgeAnswers
