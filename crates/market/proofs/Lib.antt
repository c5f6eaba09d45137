-- The CUBE market holds the last accepted quotes (CubeLastQuotes), and every range that is answered keeps its laws
-- (RangeLawful).
mod CubeLastQuotes
mod RangeLawful
