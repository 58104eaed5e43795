-- A record is known from its text.
use Rattle.std.proofs.Common.{◌≡◌, ℕ, List, [], ◌∷◌, ◌++◌, Option, Some, None, cond, map, refl, sym, ap, ◌∙◌, arith, codes, All, append_assoc}
use Rattle.std.specs.List.{AllByRecursion}
use Rattle.std.specs.Option.{option_map}
use Rattle.std.specs.Str.{bytes_eq}
use Rattle.std.specs.Str.Lines.{lines}
use Rattle.std.proofs.lemmas.List.{append-nil}
use Rattle.std.proofs.lemmas.List.Concat.{flat_map-cons}
use Rattle.svc_record.specs.declared.action.Action.TheVariants as actions
use Rattle.svc_record.specs.declared.entry.Entry.{Entry}
use Rattle.svc_record.specs.declared.entry.Entry.TheVariants.{Got, Told}
use Rattle.svc_record.specs.Text.{entry_words, spaced, line_of, text_of, EntryFits}
use Rattle.svc_base.specs.Words.{words}
use Rattle.svc_text.proofs.PieceLemmas.{by_recursion}
use Rattle.svc_text.proofs.Visible.{IsWord, words_spaced, spaced_printable, line_back}
use Rattle.svc_text.proofs.EventBack.{got_of, event_back, event_fits}
use Rattle.svc_text.proofs.ActionBack.{action_of, action_back, action_fits, no_action, no_end}

-- what the words of an entry's line say
pub entry_of : List (List ℕ) → Option Entry
entry_of [] = None
entry_of (key ∷ args) = cond (bytes_eq key (codes "got")) (option_map Got (got_of args)) (option_map Told (action_of (key ∷ args)))

entry_back : (e : Entry) → EntryFits e → entry_of (entry_words e) ≡ Some e
unfolding entry_of
entry_back (Got e) h = rw (event_back e h) refl
entry_back (Told (actions.Start s)) h = rw (action_back (actions.Start s) h) refl
entry_back (Told (actions.Fail s)) h = rw (action_back (actions.Fail s) h) refl
entry_back (Told (actions.Bind s i)) h = rw (action_back (actions.Bind s i) h) refl
entry_back (Told (actions.Adopt s i fd)) h = rw (action_back (actions.Adopt s i fd) h) refl
entry_back (Told (actions.Close fd)) h = rw (action_back (actions.Close fd) h) refl
entry_back (Told actions.OpenReceiver) h = rw (action_back actions.OpenReceiver h) refl
entry_back (Told actions.TryReceive) h = rw (action_back actions.TryReceive h) refl
entry_back (Told actions.NotifyParent) h = rw (action_back actions.NotifyParent h) refl
entry_back (Told actions.Connect) h = rw (action_back actions.Connect h) refl
entry_back (Told (actions.Send bytes fds)) h = rw (action_back (actions.Send bytes fds) h) refl
entry_back (Told (actions.Phase p ms)) h = rw (action_back (actions.Phase p ms) h) refl
entry_back (Told actions.Broadcast) h = rw (action_back actions.Broadcast h) refl
entry_back (Told (actions.Judged c said)) h = rw (action_back (actions.Judged c said) h) refl
entry_back (Told (actions.Refuse c)) h = rw (action_back (actions.Refuse c) h) refl
entry_back (Told (actions.Settings c list)) h = rw (action_back (actions.Settings c list) h) refl
entry_back (Told (actions.Handshake c)) h = rw (action_back (actions.Handshake c) h) refl
entry_back (Told (actions.Serve c)) h = rw (action_back (actions.Serve c) h) refl
entry_back (Told (actions.Drop c)) h = rw (action_back (actions.Drop c) h) refl
entry_back (Told (actions.Rest s i)) h = rw (action_back (actions.Rest s i) h) refl
entry_back (Told (actions.Cut c)) h = rw (action_back (actions.Cut c) h) refl
entry_back (Told (actions.Stop seconds)) h = rw (action_back (actions.Stop seconds) h) refl
entry_back (Told actions.Daemonize) h = rw (action_back actions.Daemonize h) refl

entry_fits : (e : Entry) → EntryFits e → AllByRecursion IsWord (entry_words e)
entry_fits (Got e) h = (record { visible = refl; some = omega arith }, event_fits e h)
entry_fits (Told a) h = action_fits a

-- the entries that the lines of a text say
pub entries_of : List (List ℕ) → List (Option Entry)
entries_of ls = map (λ l. entry_of (words l)) ls

-- the record's lines stand before what follows it
text_back : (r : List Entry) (rest : List ℕ) → AllByRecursion EntryFits r → entries_of (lines (text_of r ++ rest)) ≡ map Some r ++ entries_of (lines rest)
unfolding entries_of
text_back [] rest h = refl
text_back (e ∷ r) rest h =
    let ws : List (List ℕ) = entry_words e in
    let fits : AllByRecursion IsWord ws = entry_fits e h.0 in
    let cut : text_of (e ∷ r) ++ rest ≡ line_of e ++ (text_of r ++ rest) =
    ap (λ (t : List ℕ). t ++ rest) (flat_map-cons line_of e r) ∙ append_assoc (line_of e) (text_of r) rest in
    let first : lines (text_of (e ∷ r) ++ rest) ≡ spaced ws ∷ lines (text_of r ++ rest) =
    ap lines cut ∙ line_back (spaced ws) (text_of r ++ rest) (spaced_printable ws fits) in
    let read : entry_of (words (spaced ws)) ≡ Some e = ap entry_of (words_spaced ws fits) ∙ entry_back e h.0 in
    let more : entries_of (lines (text_of r ++ rest)) ≡ map Some r ++ entries_of (lines rest) = text_back r rest h.1 in
    ap entries_of first ∙ rw (read, more) refl

some_same : (r q : List Entry) → map Some r ++ (None ∷ []) ≡ map Some q ++ (None ∷ []) → r ≡ q
some_same [] [] e = refl
some_same [] (y ∷ q) e = absurd cc
some_same (x ∷ r) [] e = absurd cc
some_same (x ∷ r) (y ∷ q) e = let h : x ≡ y = cc in let t : map Some r ++ (None ∷ []) ≡ map Some q ++ (None ∷ []) = cc in let u : r ≡ q = some_same r q t in cc

-- a last line that is no entry's
pub record IsLastLine (line : List ℕ) : Type 0 where
  pub one : lines (line ++ (10 ∷ [])) ≡ line ∷ []
  pub none : entry_of (words line) ≡ None

-- a last line of printable words that does not begin as an entry
pub spaced_last : (ws : List (List ℕ)) → AllByRecursion IsWord ws → entry_of ws ≡ None → IsLastLine (spaced ws)
spaced_last ws fits e = record {
  one = ap lines (sym (append-nil (spaced ws ++ (10 ∷ [])))) ∙ line_back (spaced ws) [] (spaced_printable ws fits);
  none = ap entry_of (words_spaced ws fits) ∙ e;
}

last_back : (line : List ℕ) → IsLastLine line → entries_of (lines (line ++ (10 ∷ []))) ≡ None ∷ []
unfolding entries_of
last_back line h = rw (h.one, h.none) refl

answer_back : (r : List Entry) (line : List ℕ) → All EntryFits r → IsLastLine line
    → entries_of (lines (text_of r ++ (line ++ (10 ∷ [])))) ≡ map Some r ++ (None ∷ [])
answer_back r line h k =
    text_back r (line ++ (10 ∷ [])) (by_recursion EntryFits r h) ∙ ap (λ (os : List (Option Entry)). map Some r ++ os) (last_back line k)

-- a record is known from a text that it begins, if one more line stands behind it
pub same_record_before : (r q : List Entry) (x y : List ℕ) → All EntryFits r → All EntryFits q → IsLastLine x → IsLastLine y
    → text_of r ++ (x ++ (10 ∷ [])) ≡ text_of q ++ (y ++ (10 ∷ [])) → r ≡ q
same_record_before r q x y h k a b e =
    some_same r q (sym (answer_back r x h a) ∙ ap (λ (t : List ℕ). entries_of (lines t)) e ∙ answer_back q y k b)

end_line : IsLastLine (codes "end")
unfolding entry_of
end_line = spaced_last (codes "end" ∷ []) (record { visible = refl; some = omega arith }, tt) (rw no_end refl)

pub same_record : (r q : List Entry) → All EntryFits r → All EntryFits q → text_of r ≡ text_of q → r ≡ q
same_record r q h k e = same_record_before r q (codes "end") (codes "end") h k end_line end_line (ap (λ (t : List ℕ). t ++ (codes "end" ++ (10 ∷ []))) e)

-- a line that begins with the word of a status is no entry's
pub no_entry : (args : List (List ℕ)) → entry_of (codes "status" ∷ args) ≡ None
unfolding entry_of
no_entry args = rw (no_action args) refl
