pub mod LookupLaws
pub mod SetLaws
pub mod FewLaws
pub mod JudgeLaws
pub mod VerdictLaws
pub mod WalkFirstLaws
