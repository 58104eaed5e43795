-- What an echo wrote back so far, and a piece more.
use Rattle.std.proofs.Common.{ℕ, ◌+◌, ◌<◌, ◌≤◌, List, ◌++◌, length, take, Option, sym, subst, arith, length-append}
use Rattle.std.proofs.Math.Seq.{take-append-add}
use Rattle.std.proofs.KnownBytes.{Appends-trans, Consumes-trans}
use Rattle.std.specs.Io.KnownBytes.{Consumes, Appends}
use Rattle.svc_base.specs.Streams.{Rose}
use Rattle.svc_sockets.specs.Echoing.{IsEchoed}
use Rattle.svc_sockets.specs.declared.echoing.EchoEnd.TheVariants.{WriteFault}

-- all that was read was written, of at least so many bytes
pub record AllEchoed (left left' written written' : Option (List ℕ)) (i : ℕ) : Type 0 where
  pub read : List ℕ
  pub taken : Consumes left left' read
  pub wrote : Appends written written' read
  pub enough : i ≤ length read

-- a piece more
pub echoed_more : (a b c v w x : Option (List ℕ)) (i : ℕ) (piece : List ℕ) → AllEchoed a b v w i → 0 < length piece
    → Consumes b c piece → Appends w x piece → AllEchoed a c v x (i + 1)
echoed_more a b c v w x i piece so_far some taken wrote = record {
  read = so_far.read ++ piece;
  taken = Consumes-trans a b c so_far.read piece so_far.taken taken;
  wrote = Appends-trans v w x so_far.read piece so_far.wrote wrote;
  enough = let enough : i ≤ length so_far.read = so_far.enough in omega (arith, length-append so_far.read piece);
}

-- a front of a piece more, as the sink failed
pub echoed_front : (a b c v w x : Option (List ℕ)) (r r' s s' i turns : ℕ) (piece : List ℕ) (n : ℕ) → AllEchoed a b v w i
    → n ≤ length piece → Consumes b c piece → Appends w x (take n piece) → Rose s s' → IsEchoed a c v x r r' s s' turns WriteFault
echoed_front a b c v w x r r' s s' i turns piece n so_far within taken wrote rose = record {
  read = so_far.read ++ piece;
  put = length so_far.read + n;
  within = omega (arith, length-append so_far.read piece);
  taken = Consumes-trans a b c so_far.read piece so_far.taken taken;
  wrote = subst (Appends v x) (sym (take-append-add so_far.read piece n)) (Appends-trans v w x so_far.read (take n piece) so_far.wrote wrote);
  ends = rose;
}
