mod LinesRead
mod Alike
mod AtOnce
mod LinesMade
mod NoRowLeftOut
mod EndedByNumber
mod NoneMisread
