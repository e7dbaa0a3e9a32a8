-- The questions of entries of `replaces`: does the entry name the member that has its name? A question has the word
-- (32-bit reference) of the entry's version, so that entries with the same word and operator ask the same question.
use Rattle.std.specs.Prelude.{◌≡◌, ◌<◌, ℕ, Bool, true, false, ◌==◌, ◌&&◌, List, [], ◌∷◌, ◌++◌, length, Option, Some, None, slice_get}
use Rattle.adb_view.specs.Plain.{Plain}
use Rattle.adb_view.specs.FieldIndexes.{DEP_MATCH_INDEX, DEP_NAME_INDEX, DEP_VERSION_INDEX}
use Rattle.adb_view.specs.Values.{entry_at_index, int_in, is_sound, text_in, value_at}
use Rattle.adb_view.specs.declared.tables.Kind.TheVariants.{Obj, Text}
use Rattle.adb_view.specs.declared.tables.Which.TheVariants.{Dep}
use Rattle.db_core.specs.adb_schema.SoundValues.{ObeysTextAndNumberRulesOfDependency}
use Rattle.db_core.specs.Members.{Member, member_name}
use Rattle.file_owners.specs.Replaces.{does_replaces_entry_name_package}
use Rattle.file_owners.specs.declared.questions.Question.{Question}

-- the plain value of the question's entry, read from the payload
abbrev pub entry_of_question : List ℕ → Question → Plain
entry_of_question payload q = value_at payload (Obj Dep) q.word

-- Whether the question `q` is about the member with the index `place`, and its entry, read from the payload, names
-- `pkg`. Here `pkg` is the package of this member; this is not tested.
abbrev pub question_names_package : List ℕ → ℕ → Plain → Question → Bool
question_names_package payload place pkg q =
    (q.place == place) && does_replaces_entry_name_package (entry_of_question payload q) pkg

-- as *question_names_package*; false if there is no question
abbrev pub question_names_if_any : List ℕ → ℕ → Plain → Option Question → Bool
question_names_if_any payload place pkg None = false
question_names_if_any payload place pkg (Some q) = question_names_package payload place pkg q

-- the questions, followed by one more, if there is one
abbrev pub with_question : List Question → Option Question → List Question
with_question questions None = questions
with_question questions (Some q) = questions ++ q ∷ []

-- the question is consistent with the payload and the members: its entry is a sound dependency, which has the name of
-- the question's member, the version to which the question's word leads, and the question's match bits
pub record IsQuestionIn (members : List Member) (payload : List ℕ) (q : Question) : Type 0 where
  -- the question has the index of a member
  pub within : q.place < length members
  -- the word leads to a value with the shape of a dependency
  pub shaped : is_sound payload (Obj Dep) q.word ≡ true
  -- the entry is a sound dependency
  pub sound : ObeysTextAndNumberRulesOfDependency (entry_of_question payload q)
  -- the entry has the name of this member
  pub name : (m : Member) → slice_get members q.place ≡ Some m
      → text_in (entry_at_index (entry_of_question payload q) DEP_NAME_INDEX) ≡ member_name m
  -- the version word leads to the version of the entry
  pub version : text_in (entry_at_index (entry_of_question payload q) DEP_VERSION_INDEX)
      ≡ text_in (value_at payload Text q.version)
  -- the match bits are those of the entry
  pub matching : int_in (entry_at_index (entry_of_question payload q) DEP_MATCH_INDEX) ≡ q.matching

-- two questions are the same: they are about the same member, and have the same word for the version and the same
-- match bits
pub record AreSameQuestion (one other : Question) : Type 0 where
  -- both questions are about the same member
  pub place : one.place ≡ other.place
  -- both questions have the same word (32-bit reference) for the version
  pub version : one.version ≡ other.version
  -- both questions have the same match bits
  pub matching : one.matching ≡ other.matching
