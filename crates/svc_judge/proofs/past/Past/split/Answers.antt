use Rattle.std.proofs.Common.{List, [], ◌∷◌, length, ◌≡◌, refl, ◌∙◌}
use Rattle.svc_record.specs.declared.entry.Entry.{Entry}
use Rattle.svc_judge.proofs.PastLemmas.{cut_behind}
use Rattle.svc_judge.proofs.past.Past.split.Goals as goal

none : (xs : List Entry) → length xs ≡ 0 → xs ≡ []
none [] h = refl
none (x ∷ xs) h = cc

pub split_at-requires : goal.split_at-requires
split_at-requires c =
    (cut_behind c.args.self.now c.in-Some.entry.now c.in-Some.entries.now c.count_brought.result c.requires
    c.in-Some.ensures.cases.0 c.count_brought.ensures).fits

pub returns-in-Some : goal.returns-in-Some
returns-in-Some c =
    let k =
    cut_behind c.args.self.now c.in-Some.entry.now c.in-Some.entries.now c.count_brought.result c.requires c.in-Some.ensures.cases.0 c.count_brought.ensures in
    record {
      rest = record {
        past = record {
          opened = c.split_at.ensures.back ∙ k.opened;
          reads = c.reads_behind.ensures ∙ k.reads;
          order = c.requires.order;
          numbers = k.numbers;
          message = k.message;
        };
        plan = refl;
      };
      entries = c.in-Some.ensures.cases.0;
      news = c.split_at.ensures.front ∙ k.news;
    }

pub returns-in-None : goal.returns-in-None
returns-in-None c = none c.args.self.now.entries.now c.in-None.ensures.cases
