-- The words of a line: which they are (Pieces), and where the text is cut (Cuts). A number that is held at a most while its
-- digits are read (Capped). What is written is read again: words with blanks between (Spaced), numbers and prices
-- (NumbersAgain), each statement (ReadAgain).
mod Pieces
mod Cuts
mod Capped
mod Spaced
mod NumbersAgain
mod ReadAgain
