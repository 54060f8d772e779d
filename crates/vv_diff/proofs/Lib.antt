pub mod PutPieces
pub mod HeldPiece
pub mod DifferenceSteps
