mod StreamLaws
mod PartingLaws
mod PieceLaws
pub mod SweepLaws
mod LeaverLaws
mod HistoryLaws
mod TurnLaws
mod PieceTurnLaws
mod RoundLaws
mod PauseLaws
mod LookaheadLaws
