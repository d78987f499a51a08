mod UsageExamples
