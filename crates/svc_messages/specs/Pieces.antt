-- Pieces that a message is put together from.
use Rattle.std.specs.Prelude.{Bool, true, List}
use Rattle.std.specs.List.{list_all}
use Rattle.svc_messages.specs.declared.pieces.Piece.{Piece}
use Rattle.svc_messages.specs.declared.pieces.Piece.TheVariants.{Text, Number, Word}
use Rattle.svc_messages.specs.Messages.{is_plain}

-- the piece is on one line, without control characters
abbrev pub is_plain_piece : Piece → Bool
is_plain_piece (Text words) = list_all is_plain words.now
is_plain_piece (Number n) = true
is_plain_piece (Word word) = true

-- each piece is
abbrev pub are_plain_pieces : List Piece → Bool
are_plain_pieces pieces = list_all is_plain_piece pieces
