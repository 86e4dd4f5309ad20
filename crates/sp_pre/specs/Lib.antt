pub mod PointsTo
