pub mod HedgeWith
