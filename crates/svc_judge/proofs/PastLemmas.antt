-- What stands before the newest entry has what it opened, and the same offer.
use Rattle.std.proofs.Common.{ℕ, true, not, ◌||◌, List, [], ◌∷◌, ◌++◌, length, take, drop, ◌≡◌, ◌≤◌, refl, sym, ap, ◌∙◌, arith}
use Rattle.std.proofs.Math.Bool.{or-true}
use Rattle.std.proofs.Math.Seq.{take-append_seam, drop-append_seam}
use Rattle.std.proofs.lemmas.List.{length-append}
use Rattle.std.specs.List.{list_any}
use Rattle.svc_record.specs.declared.plan.Plan.{Plan}
use Rattle.svc_record.specs.declared.entry.Entry.{Entry}
use Rattle.svc_record.specs.declared.entry.Entry.TheVariants.{Got}
use Rattle.svc_record.specs.declared.event.Event.TheVariants.{Bound, Received, Signal}
use Rattle.svc_record.specs.Record.{Record, has, is_signal, before_signal}
use Rattle.svc_record.specs.Message.{encode, decode}
use Rattle.svc_record.specs.Descriptors.{with_words, words_or_none, descriptors_of, numbers_of, opened_descriptors, live_table}
use Rattle.svc_fds.specs.Tables.{numbers}
use Rattle.svc_judge.specs.declared.past.Past.{Past}
use Rattle.svc_record.specs.Boot.{is_read, is_good_message, is_bad_message}
use Rattle.svc_judge.specs.Pasts.{IsPast, reads_of, reads_behind}

length-words : (fds : List ℕ) (words : List (List ℕ)) → length (with_words fds words) ≡ length fds
length-words [] words = refl
length-words (fd ∷ fds) [] = let h = length-words fds [] in cc
length-words (fd ∷ fds) (w ∷ words) = let h = length-words fds words in cc

pub length-descriptors : (p : Plan) (e : Entry) → length (descriptors_of p e) ≡ length (numbers_of e)
length-descriptors p (Got (Bound s i fd)) = refl
length-descriptors p (Got (Received bytes fds)) = length-words fds (words_or_none (decode bytes (length fds)))
length-descriptors p _ = refl

same-before : (e : Entry) (before : Record) → has is_signal before ≡ true → before_signal (e ∷ before) ≡ before_signal before
same-before (Got (Signal kind)) before h = rw h
same-before _ before h = refl

still-has : (e : Entry) (before : Record) → has is_signal before ≡ true → has is_signal (e ∷ before) ≡ true
still-has e before h = rw h (or-true (is_signal e))

reads-cut : (e : Entry) (before : Record) → reads_behind e (reads_of (e ∷ before)) ≡ reads_of before
reads-cut (Got (Received bytes fds)) before = refl
reads-cut _ before = refl

-- a message that can be read, or can't, by what is known of each
pub good_by_reads : (q : Record) → has is_good_message q ≡ list_any (λ r. r) (reads_of q)
good_by_reads [] = refl
good_by_reads (Got (Received bytes fds) ∷ q) = ap (λ b. is_read (decode bytes (length fds)) || b) (good_by_reads q)
good_by_reads (_ ∷ q) = good_by_reads q

pub bad_by_reads : (q : Record) → has is_bad_message q ≡ list_any (λ r. not r) (reads_of q)
bad_by_reads [] = refl
bad_by_reads (Got (Received bytes fds) ∷ q) = ap (λ b. not (is_read (decode bytes (length fds))) || b) (bad_by_reads q)
bad_by_reads (_ ∷ q) = bad_by_reads q

-- what a past is cut into behind its newest entry
pub record CutBehind (s : Past) (e : Entry) (rest : Record) (k : ℕ) : Type 0 where
  pub fits : k ≤ length s.opened.now
  pub news : take k s.opened.now ≡ descriptors_of s.plan.now e
  pub opened : drop k s.opened.now ≡ opened_descriptors s.plan.now rest
  pub reads : reads_behind e s.reads.now ≡ reads_of rest
  pub numbers : has is_signal rest ≡ true → s.offer.now.numbers.items ≡ numbers (live_table s.plan.now (before_signal rest))
  pub message : has is_signal rest ≡ true → s.offer.now.message ≡ encode (live_table s.plan.now (before_signal rest))

pub cut_behind : (s : Past) (e : Entry) (rest : Record) (k : ℕ) → IsPast s → s.entries.now ≡ e ∷ rest → k ≡ length (numbers_of e) → CutBehind s e rest k
cut_behind s e rest k past is count =
    let p = s.plan.now in
    let parts : s.opened.now ≡ descriptors_of p e ++ opened_descriptors p rest = past.opened ∙ ap (opened_descriptors p) is in
    let many : k ≡ length (descriptors_of p e) = count ∙ sym (length-descriptors p e) in
    record {
      fits = rw parts (omega (arith, many, length-append (descriptors_of p e) (opened_descriptors p rest)));
      news = rw (parts, many) (take-append_seam (descriptors_of p e) (opened_descriptors p rest));
      opened = rw (parts, many) (drop-append_seam (descriptors_of p e) (opened_descriptors p rest));
      reads = rw (past.reads, is) (reads-cut e rest);
      numbers = λ h. past.numbers (rw is (still-has e rest h)) ∙ ap (λ q. numbers (live_table p q)) (ap before_signal is ∙ same-before e rest h);
      message = λ h. past.message (rw is (still-has e rest h)) ∙ ap (λ q. encode (live_table p q)) (ap before_signal is ∙ same-before e rest h);
    }
