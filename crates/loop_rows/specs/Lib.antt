pub mod LoopRows
